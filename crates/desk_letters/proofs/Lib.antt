mod HiddenLaws
mod LetterLaws
mod NamingLaws
mod ScreenLaws
