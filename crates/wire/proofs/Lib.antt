-- Laws of numbers as bytes: how many words there are, the word at a place, and what two runs of bytes, one behind the other, say.
pub mod Laws
