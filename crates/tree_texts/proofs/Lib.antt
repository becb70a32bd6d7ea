mod Bodies
mod Lists
mod Partly
mod Pieces
mod StoreSums
