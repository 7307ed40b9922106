pub mod Complex
