-- Laws of lent memory, that say nothing of this product.
pub mod Lent
