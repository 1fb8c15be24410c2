-- The rows of a text that grows at its end, for callers that feed a cutter.
use Rattle.std.proofs.Common.{◌∷◌, ◌++◌, ◌∙◌, [], ℕ, List, refl, sym, ap, append_assoc}
use Rattle.std.specs.List.{flat_map}
use Rattle.std.proofs.lemmas.List.{append-nil}
use Rattle.std.proofs.lemmas.List.Concat.{flat_map-append}
use Rattle.row_text.specs.declared.cutter.CutRule.{CutRule}
use Rattle.dict_value.specs.declared.letters.TheConstants.{LINE_FEED}
use Rattle.row_text.specs.Cutting.{Cuts, IsOpen, IsWhole, ended}
use Rattle.row_text.proofs.CutSteps.{open-nil}
use Rattle.row_text.proofs.MarkLists.{all-append}

-- nothing has come
pub cuts-none : (by : CutRule) → Cuts by [] [] []
cuts-none by = record { joined = refl; whole = tt; opened = open-nil by }

-- bytes that end no row
pub cuts-more : (by : CutRule) (text rest piece : List ℕ) (rows : List (List ℕ)) → Cuts by text rows rest → IsOpen by (rest ++ piece) → Cuts by (text ++ piece) rows (rest ++ piece)
cuts-more by text rest piece rows c opened = record {
  joined = ap (λ (t : List ℕ). t ++ piece) c.joined ∙ append_assoc (flat_map ended rows) rest piece;
  whole = c.whole;
  opened = opened;
}

-- bytes that end a row, and the line feed behind them
pub cuts-row : (by : CutRule) (text rest front : List ℕ) (rows : List (List ℕ)) → Cuts by text rows rest → IsWhole by (rest ++ front) → Cuts by (text ++ ended front) (rows ++ (rest ++ front) ∷ []) []
cuts-row by text rest front rows c whole = record {
  joined = ap (λ (t : List ℕ). t ++ ended front) c.joined ∙ append_assoc (flat_map ended rows) rest (ended front)
      ∙ ap (λ (t : List ℕ). flat_map ended rows ++ t) (sym (append_assoc rest front (LINE_FEED ∷ [])) ∙ sym (append-nil (ended (rest ++ front))))
      ∙ sym (flat_map-append ended rows ((rest ++ front) ∷ [])) ∙ sym (append-nil (flat_map ended (rows ++ (rest ++ front) ∷ [])));
  whole = all-append (IsWhole by) rows ((rest ++ front) ∷ []) c.whole (whole, tt);
  opened = open-nil by;
}
