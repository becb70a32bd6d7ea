mod Gathered
mod PairsOfDigits
mod Texts
mod UnitSteps
mod SetOrder
