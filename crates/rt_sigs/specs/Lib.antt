pub mod Signatures
pub mod SignatureTexts
pub mod Faults
pub mod Laws
pub mod Inside
