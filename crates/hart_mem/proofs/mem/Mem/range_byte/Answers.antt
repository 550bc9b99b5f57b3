use Rattle.hart_mem.specs.Access.{IsWidth}
use Rattle.std.proofs.Common.{◌-◌, ◌%◌, ◌∙◌, ℕ, sym, ap}
use Rattle.spec_base.specs.Word.{byte_of}
use Rattle.hart_mem.specs.contracts.mem.Mem.{the_view}
use Rattle.hart_mem.proofs.MemLemmas.{data_seen, loaded_one, range_inside, text_seen, text_word}
use Rattle.hart_mem.proofs.mem.Mem.range_byte.Goals as goal

pub load-requires-clause-inside : goal.load-requires-clause-inside
load-requires-clause-inside c =
    let inside = rw (← c.self.view_is) at c.requires in
    range_inside (the_view c.self.inside) c.self.invariant.0 c.args.address inside

pub returns-then-is_in_text : goal.returns-then-is_in_text
returns-then-is_in_text c =
    let inside = rw (← c.self.view_is) at c.requires in
    rw (← c.self.view_is) (c.byte_of.ensures ∙ ap (λ (w : ℕ). byte_of w ((c.args.address - c.self.inside.layout.text_start) % 4)) c.word.ensures ∙ text_seen (the_view c.self.inside) c.self.invariant.0 c.args.address inside (sym c.if-is_in_text.ensures))

pub returns-else-is_in_text : goal.returns-else-is_in_text
returns-else-is_in_text c =
    let inside = rw (← c.self.view_is) at c.requires in
    rw (← c.self.view_is) (c.load.ensures.value ∙ loaded_one _ c.args.address ∙ data_seen (the_view c.self.inside) c.self.invariant.0 c.args.address inside (sym c.if-is_in_text.ensures))

pub word-requires : goal.word-requires
word-requires c = text_word (the_view c.self.inside) c.self.invariant.0 c.args.address (sym c.if-is_in_text.ensures)

pub load-requires-clause-size : goal.load-requires-clause-size
load-requires-clause-size c = IsWidth.one
