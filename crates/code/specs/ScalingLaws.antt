-- The laws of scaling that the layer above uses, under the code's name.
pub use Rattle.field.specs.ByteLaws.{scale_bound, scale_one, scale_zero, scale_add, add_scale}
