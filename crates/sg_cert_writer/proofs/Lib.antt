mod Adding
mod LineTexts
mod Splits
