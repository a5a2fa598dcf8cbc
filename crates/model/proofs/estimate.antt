-- Laws of the model's coefficients.
pub mod Laws
