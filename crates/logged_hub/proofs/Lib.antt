pub mod HubLaws
pub mod RecordLaws
pub mod RunLaws
