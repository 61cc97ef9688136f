pub mod Files
pub mod Finding
pub mod Folder
pub mod Net
