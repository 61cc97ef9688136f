pub mod AddressLaws
pub mod DayLaws
pub mod EntryLaws
pub mod LetterLaws
pub mod NamedLaws
pub mod SeenLaws
pub mod TextLaws
