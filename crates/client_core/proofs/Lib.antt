mod FrameLemmas
mod AskLemmas
mod ReplyLemmas
mod WriteLemmas
