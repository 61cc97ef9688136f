mod ListingLaws
mod PartLaws
mod PeeledLaws
