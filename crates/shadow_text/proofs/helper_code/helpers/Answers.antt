-- The code after each call is the helpers so far.
use Rattle.std.proofs.Common.{◌≡◌, ◌++◌, ◌∙◌, ap, List}
use Rattle.spec_base.specs.declared.layout.Layout.{Layout}
use Rattle.rv_decode.specs.declared.instr.Instr.{Instr}
use Rattle.rv_encode.specs.Code.{Code}
use Rattle.code_model.specs.Helpers.{append_words, clear_words, unbox_words, helpers}
use Rattle.cow_regions.specs.Access.{access_code}
use Rattle.assembler.specs.Emitted.{with_code}
use Rattle.assembler.proofs.Parts.{whole-then}
use Rattle.shadow_text.proofs.Closed.{empty, closed-items}
use Rattle.shadow_text.proofs.helper_code.helpers.Goals as goal

pub returns-clause-words : goal.returns-clause-words
returns-clause-words c =
    let l : Layout = c.args.layout.now in
    let appended : List Instr = access_code l ++ append_words in
    let cleared : List Instr = appended ++ clear_words in
    let unboxed : List Instr = cleared ++ unbox_words in
    let code1 : c.emit_access.new.buf ≡ with_code empty (access_code l) = c.in_ok-emit_access.ensures.ok ∙ ap (λ (code : Code). with_code code (access_code l)) c.new-code.ensures in
    let code2 : c.emit_append.new.buf ≡ with_code empty appended = whole-then empty c.emit_access.new.buf c.emit_append.new.buf (access_code l) append_words code1 c.in_ok-emit_append.ensures.ok in
    let code3 : c.emit_clear.new.buf ≡ with_code empty cleared = whole-then empty c.emit_append.new.buf c.emit_clear.new.buf appended clear_words code2 c.in_ok-emit_clear.ensures.ok in
    let code4 : c.emit_box_load.new.buf ≡ with_code empty unboxed = whole-then empty c.emit_clear.new.buf c.emit_box_load.new.buf cleared unbox_words code3 c.in_ok-emit_box_load.ensures.ok in
    let code5 : c.emit.new.buf ≡ with_code empty (unboxed ++ c.parks.result) = whole-then empty c.emit_box_load.new.buf c.emit.new.buf unboxed c.parks.result code4 c.in_ok-emit.ensures.ok in
    let whole : c.emit.new.buf ≡ with_code empty (helpers l) = code5 ∙ ap (λ (parks : List Instr). with_code empty (unboxed ++ parks)) c.parks.ensures in
    closed-items c.emit.new.buf (helpers l) c.close.result c.unwrap.result whole c.unwrap.ensures c.close.ensures.closed
