-- The laws of texts and of lines, by which every reader is proved; then those of the texts that are written, from the bytes
-- of a number up to message lines and command lines in a sheet.
pub mod TextLaws
pub mod Tests
pub mod LineLaws
pub mod Bytes
pub mod Numbers
pub mod Texts
pub mod Messages
pub mod Commands
pub mod Short
pub mod Phases
pub mod Readings
pub mod Opening
pub mod Lines
pub mod Pasted
pub mod Replaced
