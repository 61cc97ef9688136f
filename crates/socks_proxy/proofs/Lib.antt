mod NameLaws
pub mod TalkLaws
pub mod ReplyLaws
pub mod DialLaws
pub mod TellLaws
