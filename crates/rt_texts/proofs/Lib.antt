pub mod WordTexts
pub mod Numbers
pub mod Cuts
pub mod LabelTexts
pub mod VariableTexts
pub mod Clear
pub mod LineTexts
pub mod OneText
