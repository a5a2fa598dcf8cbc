-- Laws of the program: what it does with a recording.
pub mod Program
