-- A byte times a symbol, which the layer above uses, under the code's name.
unfoldable pub use Rattle.field.specs.Byte.{scale}
