mod LeaseLaws
mod OpeningLaws
mod PartLaws
mod RecordLaws
