pub mod MailLaws
pub mod MarkLaws
pub mod PlaceLaws
pub mod StatusLaws
pub mod TellLaws
