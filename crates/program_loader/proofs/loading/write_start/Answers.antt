use Rattle.std.proofs.Common.{◌≡◌, ◌-◌, ◌*◌, ◌/◌, [], ◌∷◌, ◌++◌, IsTrue, length, map, string_bytes, ap, sym, ◌∙◌, subst, arith}
use Rattle.std.proofs.lemmas.List.{length-map}
use Rattle.spec_base.specs.Layout.{range_end, image_limit}
use Rattle.rv_model.specs.Memory.{all_from}
use Rattle.rv_model.specs.Rights.{is_data}
use Rattle.program_model.specs.Loading.{argument_bytes, argument_addresses, arguments_start, stack_start, bytes_of_words, stack_words}
use Rattle.hart_mem.specs.Held.{space_of}
use Rattle.program_loader.proofs.ArgumentLemmas.{sum-count, stack-count}
use Rattle.program_loader.proofs.StartLemmas.{start-data, start-is, room}
use Rattle.program_loader.proofs.loading.write_start.Goals as goal

pub overflow_sub-start : goal.overflow_sub-start
overflow_sub-start c =
    let args = map string_bytes c.args.arguments.now in
    let count : c.len.result ≡ length (argument_bytes args) = c.len.ensures ∙ (c.in_ok-bytes.bytes.ok.0 ∙ ap length c.in_ok-bytes.ensures) in
    let wide = room c.args.version c.range_end.result c.len.result c.range_end.ensures (omega (arith, sum-count args, count, c.requires.short)) in
    omega (arith, wide.1)

pub stack_start-stack-requires : goal.stack_start-stack-requires
stack_start-stack-requires c =
    let args = map string_bytes c.args.arguments.now in
    let count : c.len.result ≡ length (argument_bytes args) = c.len.ensures ∙ (c.in_ok-bytes.bytes.ok.0 ∙ ap length c.in_ok-bytes.ensures) in
    let wide = room c.args.version c.range_end.result c.len.result c.range_end.ensures (omega (arith, sum-count args, count, c.requires.short)) in
    let words = c.len-2.ensures ∙ (c.in_ok-words.words.ok.0 ∙ (ap length c.in_ok-words.ensures ∙ stack-count args (length c.args.arguments.now) (c.range_end.result - c.len.result))) in
    let few = length-map c.args.arguments.now string_bytes in
    omega (arith, wide.0, words, few, c.requires.few)

pub fill-requires : goal.fill-requires
fill-requires c =
    let args = map string_bytes c.args.arguments.now in
    let count : c.len.result ≡ length (argument_bytes args) = c.len.ensures ∙ (c.in_ok-bytes.bytes.ok.0 ∙ ap length c.in_ok-bytes.ensures) in
    let wide = room c.args.version c.range_end.result c.len.result c.range_end.ensures (omega (arith, sum-count args, count, c.requires.short)) in
    let limit = ap image_limit c.requires.version in
    let end = ap range_end c.requires.version in
    let written = ap length (c.deref.ensures.value ∙ c.in_ok-bytes.ensures) in
    start-data (space_of c.args.mem.now).layout c.requires.lawful (c.range_end.result - c.len.result) (length c.deref.result.now)
    (omega (arith, wide.0, limit))
    (omega (arith, wide.1, end, count, written, c.range_end.ensures))

pub fill-requires-2 : goal.fill-requires-2
fill-requires-2 c =
    let args = map string_bytes c.args.arguments.now in
    let count : c.len.result ≡ length (argument_bytes args) = c.len.ensures ∙ (c.in_ok-bytes.bytes.ok.0 ∙ ap length c.in_ok-bytes.ensures) in
    let wide = room c.args.version c.range_end.result c.len.result c.range_end.ensures (omega (arith, sum-count args, count, c.requires.short)) in
    let words = c.len-2.ensures ∙ (c.in_ok-words.words.ok.0 ∙ (ap length c.in_ok-words.ensures ∙ stack-count args (length c.args.arguments.now) (c.range_end.result - c.len.result))) in
    let few = length-map c.args.arguments.now string_bytes in
    let limit = ap image_limit c.requires.version in
    let end = ap range_end c.requires.version in
    let written = ap length (c.deref-2.ensures.value ∙ c.in_ok-words.ensures) ∙ stack-count args (length c.args.arguments.now) (c.range_end.result - c.len.result) in
    subst (λ l. IsTrue (all_from (is_data l) c.stack_start-stack.result (length c.deref-2.result.now))) (sym (ap (λ s. s.layout) c.in_ok-fill.ensures.ok))
    (start-data (space_of c.args.mem.now).layout c.requires.lawful c.stack_start-stack.result (length c.deref-2.result.now)
    (omega (arith, wide.0, limit, words, few, c.requires.few, c.stack_start-stack.ensures.near))
    (omega (arith, wide.1, end, words, written, c.range_end.ensures, c.stack_start-stack.ensures.below)))

pub returns : goal.returns
returns c =
    let args = map string_bytes c.args.arguments.now in
    let layout = (space_of c.args.mem.now).layout in
    let count : c.len.result ≡ length (argument_bytes args) = c.len.ensures ∙ (c.in_ok-bytes.bytes.ok.0 ∙ ap length c.in_ok-bytes.ensures) in
    let at : c.range_end.result - c.len.result ≡ arguments_start layout args =
    (λ i. c.range_end.ensures i - count i) ∙ ap (λ v. range_end v - length (argument_bytes args)) (sym c.requires.version) in
    let few = sym (length-map c.args.arguments.now string_bytes) in
    let size = c.len-2.ensures ∙ (c.in_ok-words.words.ok.0 ∙ (ap length c.in_ok-words.ensures ∙ stack-count args (length c.args.arguments.now) (c.range_end.result - c.len.result))) in
    let stack : c.stack_start-stack.result ≡ stack_start layout args = c.stack_start-stack.ensures.value ∙ (λ i. (at i - size i) / 16 * 16) in
    let words : c.deref-2.result.now ≡ bytes_of_words (stack_words layout args) =
    c.deref-2.ensures.value ∙ (c.in_ok-words.ensures ∙ (λ i. bytes_of_words (few i ∷ (argument_addresses (at i) args ++ 0 ∷ 0 ∷ 0 ∷ 0 ∷ [])))) in (
      stack,
      start-is (space_of c.args.mem.now) (space_of c.fill.new.self) (space_of c.fill-2.new.self) args (c.range_end.result - c.len.result) c.stack_start-stack.result
          c.deref.result.now c.deref-2.result.now at (c.deref.ensures.value ∙ c.in_ok-bytes.ensures) stack words c.in_ok-fill.ensures.ok c.in_ok-fill-2.ensures.ok,
    )
