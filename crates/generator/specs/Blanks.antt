-- What fills a place before its first use.
use Rattle.code.specs.Serials.{no_names}
use Rattle.code.specs.declared.types.Base.TheVariants.{Number}
use Rattle.code.specs.declared.types.Ty.TheVariants.{Plain}
use Rattle.generator.specs.declared.binder.Binder.{Binder}
use Rattle.generator.specs.declared.binder.Binding.TheVariants.{Parameter}
use Rattle.generator.specs.declared.cell.Piece.{Piece}

abbrev pub blank_piece : Piece
blank_piece = record { handle = record { number = 0 }; ty = Plain Number; size = 0; names = no_names }

abbrev pub blank_binder : Binder
blank_binder = record { serial = 0; binding = Parameter Number }
