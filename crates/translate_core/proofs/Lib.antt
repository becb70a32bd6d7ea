mod Carrying
mod Exact
mod Forms
mod Limiting
mod TakenOn
mod Telling
mod Travelling
