-- The places are the sites of the text, and so below its length.
use Rattle.std.proofs.Common.{◌≡◌, ℕ, ◌<◌, Bool, List, length, refl, sym, subst, ap, ◌∙◌}
use Rattle.std.specs.List.{All}
use Rattle.site_finder.specs.Sites.{is_call, is_special, indices_of}
use Rattle.site_finder.proofs.Replaced.{put_at, length-put_at, sites-below, put-patched}
use Rattle.site_finder.proofs.patching.patch.Goals as goal

below : (test : ℕ → Bool) (text places : List ℕ) (n : ℕ) → places ≡ indices_of test text → n ≡ length text → All (λ i. i < n) places
below test text places n e f = subst (λ m. All (λ i. i < m) places) (sym f) (subst (All (λ i. i < length text)) (sym e) (sites-below test text))

pub replace-requires : goal.replace-requires
replace-requires c = below is_call c.args.text.now c.deref.result.now _ (c.deref.ensures.value ∙ c.requires.calls) refl

pub replace-requires-2 : goal.replace-requires-2
replace-requires-2 c = below is_special c.args.text.now c.deref-2.result.now _ (c.deref-2.ensures.value ∙ c.requires.specials)
    (ap length c.replace.ensures ∙ length-put_at c.deref.result.now c.args.text.now 0x0B)

pub returns : goal.returns
returns c =
    c.replace-2.ensures
    ∙ ap (λ words. put_at words c.deref-2.result.now 0) c.replace.ensures
    ∙ ap (λ places. put_at (put_at c.args.text.now places 0x0B) c.deref-2.result.now 0) (c.deref.ensures.value ∙ c.requires.calls)
    ∙ ap (λ places. put_at (put_at c.args.text.now (indices_of is_call c.args.text.now) 0x0B) places 0) (c.deref-2.ensures.value ∙ c.requires.specials)
    ∙ put-patched c.args.text.now
