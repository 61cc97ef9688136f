mod AskLaws
mod PlaceLaws
