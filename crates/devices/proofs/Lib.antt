pub mod WrittenTexts
