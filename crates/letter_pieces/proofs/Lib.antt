mod CutLemmas
mod PieceLemmas
mod PlaceLemmas
