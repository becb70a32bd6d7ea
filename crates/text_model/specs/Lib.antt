pub mod SampleTrees
pub mod TreeTexts
pub mod ValueTexts
