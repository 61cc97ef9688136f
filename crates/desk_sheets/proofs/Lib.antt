mod DigitLaws
mod HeadLaws
mod JudgeLaws
mod PrintLaws
mod SheetLaws
mod SizeLaws
