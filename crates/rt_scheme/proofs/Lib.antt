pub mod Origins
pub mod NamesRead
pub mod SplitParts
pub mod SplittingForth
pub mod SplittingBack
pub mod SplittingKeeps
pub mod PortLabels
pub mod Clear
