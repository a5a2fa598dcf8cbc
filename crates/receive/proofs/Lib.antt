-- Laws of the program: what frames that are taken leave in the two rooms, what is told of them, and that nothing is ever short.
pub mod Program
