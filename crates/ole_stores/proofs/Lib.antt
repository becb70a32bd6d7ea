mod Children
mod Made
mod Members
mod Sides
mod StoreFiles
mod WholeFiles
