mod EntryLemmas
mod Lengths
