-- Bytes as pairs of digits, one after the other.
use Rattle.std.proofs.Common.{◌≡◌, ℕ, ◌+◌, ◌/◌, ◌%◌, ◌<◌, ◌≤◌, List, [], ◌∷◌, ◌++◌, length, get_or, drop, sym, ap, ◌∙◌, append_assoc, add-one, drop-cons}
use Rattle.std.proofs.lemmas.List.{append-nil, drop_all}
use Rattle.std.specs.Char.{digit_char}
use Rattle.trace_text.specs.Line.{hex_text}

pub hex_text-next : (line bytes whole : List ℕ) (i : ℕ) → i < length bytes → line ++ hex_text (drop i bytes) ≡ whole
    → ((line ++ digit_char (get_or bytes i 0 / 16) ∷ []) ++ digit_char (get_or bytes i 0 % 16) ∷ []) ++ hex_text (drop (i + 1) bytes) ≡ whole
hex_text-next line bytes whole i lt so_far =
    let first = digit_char (get_or bytes i 0 / 16) in
    let second = digit_char (get_or bytes i 0 % 16) in
    append_assoc (line ++ first ∷ []) (second ∷ []) (hex_text (drop (i + 1) bytes))
    ∙ append_assoc line (first ∷ []) (second ∷ hex_text (drop (i + 1) bytes))
    ∙ ap (λ (j : ℕ). line ++ first ∷ second ∷ hex_text (drop j bytes)) (add-one i)
    ∙ ap (λ (ds : List ℕ). line ++ hex_text ds) (sym (drop-cons bytes i 0 lt))
    ∙ so_far

pub hex_text-ends : (line bytes whole : List ℕ) (i : ℕ) → length bytes ≤ i → line ++ hex_text (drop i bytes) ≡ whole → line ≡ whole
hex_text-ends line bytes whole i past so_far =
    sym (append-nil line) ∙ ap (λ (ds : List ℕ). line ++ hex_text ds) (sym (drop_all i bytes past)) ∙ so_far
