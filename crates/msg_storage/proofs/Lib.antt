pub mod Below
mod Adding
mod Apart
mod Bodies
mod Carriers
mod Digits
mod Found
mod Messages
mod Parts
mod Rows
mod Sorting
mod Turned
mod Unrolled
mod WholeFiles
