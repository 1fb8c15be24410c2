-- The last slash of a path.
use Rattle.std.proofs.Common.{◌≡◌, ◌≢◌, ℕ, ◌+◌, ◌∷◌, ◌++◌, List, length, take, drop, inl, ap, sym, ◌∙◌, arith}
use Rattle.std.proofs.lemmas.Grind.{common_steps}
use Rattle.std.proofs.lemmas.List.{take-append-drop, drop_more, get_or-drop}
use Rattle.std.proofs.lemmas.List.Elements.{All-from_get_or}
use Rattle.child_io.specs.Words.{IsLastSlash, IsFolder}

pub folder-before : (path : List ℕ) (i : ℕ) → IsLastSlash path i → IsFolder path (take i path)
folder-before path i h =
    let rest = drop (i + 1) path in
    let cut : path ≡ take i path ++ 47 ∷ rest = sym (take-append-drop i path) ∙ ap (λ z. take i path ++ z) (drop_more path i 0 h.0 ∙ ap (λ b. b ∷ rest) h.1) in
    let size : length rest + (i + 1) ≡ length path = grind (arith, common_steps, h.0) in
    inl (rest, cut, All-from_get_or (λ b. b ≢ 47) rest 0 (λ k less e. h.2 (i + 1 + k) (omega arith) (omega (arith, size)) (sym (get_or-drop (i + 1) path k 0) ∙ e)))
