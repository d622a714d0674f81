pub mod MovesLaws
