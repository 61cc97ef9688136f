mod AwaitLaws
mod FoundLaws
mod MarkLaws
mod TellLaws
mod TriedLaws
