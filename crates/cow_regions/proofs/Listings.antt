-- The listings of the regions can be encoded.
use Rattle.std.proofs.Common.{List, refl, take, drop}
use Rattle.std.specs.List.{All}
use Rattle.std.proofs.lemmas.List.Elements.{All-append, All-cons}
use Rattle.spec_base.specs.declared.layout.Layout.{Layout}
use Rattle.rv_decode.specs.Encoding.{IsEncodable}
use Rattle.rv_decode.specs.declared.instr.Instr.{Instr}
use Rattle.code_model.specs.Assembly.{hi, lo, lui, addi}
use Rattle.code_model.specs.Helpers.{store_tail}
use Rattle.assembler.proofs.Encodable.{all-encodable, lui_hi-encodable, lo-fits}

-- STAIL's words before a copy is made, those that make it, and those after
abbrev pub entry_words : Layout → List Instr
entry_words l = take 6 (store_tail l)

abbrev pub copy_words : Layout → List Instr
copy_words l = take 31 (drop 6 (store_tail l))

abbrev pub place_words : Layout → List Instr
place_words l = drop 37 (store_tail l)

module _ (l : Layout) where
  pub entry-encodable : All IsEncodable (entry_words l)
  entry-encodable = all-encodable (entry_words l) refl

  -- two words depend on the number of regions
  pub copy-encodable : All IsEncodable (copy_words l)
  copy-encodable =
      All-append IsEncodable (take 5 (copy_words l)) (drop 5 (copy_words l)) (all-encodable (take 5 (copy_words l)) refl)
      (All-cons IsEncodable (lui 31 (hi l.regions)) (drop 6 (copy_words l)) (lui_hi-encodable 31 l.regions)
      (All-cons IsEncodable (addi 31 31 (lo l.regions)) (drop 7 (copy_words l)) (lo-fits l.regions)
      (all-encodable (drop 7 (copy_words l)) refl)))

  pub place-encodable : All IsEncodable (place_words l)
  place-encodable = all-encodable (place_words l) refl
