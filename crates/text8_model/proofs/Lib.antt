pub mod ByteTexts
pub mod KeptLaws
pub mod TextLaws
pub mod TreeLaws
pub mod Utf8Texts
pub mod ValueLaws
