mod Cuts
mod EditSteps
mod KeyWords
mod Numerals
mod Said
mod StepWords
mod VerbWords
