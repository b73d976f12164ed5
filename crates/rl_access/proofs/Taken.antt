-- What a predictor has gathered after one list was set.
use Rattle.std.proofs.Common.{◌≡◌, ℕ, ◌<◌, ◌≤◌, false, if◌then◌else◌, List, length, set, sym, ap, ◌∙◌, subst, arith}
use Rattle.std.proofs.lemmas.Grind.{common_steps}
use Rattle.std.proofs.lemmas.List.{set-set}
use Rattle.rl_map.specs.Layout.{LayoutData, words_of}
use Rattle.rl_mirror.specs.Mirror.{MirrorData}
use Rattle.rl_model.specs.Rows.{ChipData}
use Rattle.rl_access.specs.declared.predictor.Gathered.{Gathered}
use Rattle.rl_access.specs.Gathering.{IsPredictorOf, no_words}
use Rattle.rl_access.specs.Observed.{Seen, is_whole, predicted, seen, taken_in}

-- a list that is shorter than the place's words
pub set_predictor : (l : LayoutData) (place : ℕ) (g : Gathered) (gathered : List Gathered) → IsPredictorOf l gathered → place < length l.places →
    length g.words < length (words_of l place 0) → IsPredictorOf l (set gathered place g)
set_predictor l place g gathered ok inside short = record {
  count = grind (arith, common_steps, ok.count);
  shorter = λ p there. grind (arith, common_steps, ok.count, ok.shorter p there, short);
}

-- the last word of a place empties its list
pub emptied_predictor : (l : LayoutData) (place : ℕ) (g : Gathered) (first mid last : List Gathered) → IsPredictorOf l first → place < length l.places → mid ≡ set first place g →
    last ≡ set mid place no_words → IsPredictorOf l last
emptied_predictor l place g first mid last ok inside taken emptied =
    let some : 0 < length (words_of l place 0) = omega (arith, ok.shorter place inside) in
    subst (IsPredictorOf l) (sym (emptied ∙ ap (λ v. set v place no_words) taken ∙ set-set first place g no_words)) (set_predictor l place no_words first ok inside some)

-- ---- a list that isn't whole yet

pub part_taken_in : (c : ChipData) (l : LayoutData) (place : ℕ) (g : Gathered) (gathered : List Gathered) (m : MirrorData) → is_whole l place g ≡ false →
    taken_in c l place g gathered m ≡ seen (set gathered place g) m
part_taken_in c l place g gathered m part = ap (λ t. let s : Seen = if t then seen (set gathered place no_words) (predicted c l place g m) else seen (set gathered place g) m in s) part

pub part_shorter : (l : LayoutData) (place : ℕ) (g : Gathered) → is_whole l place g ≡ false → length g.words ≤ length (words_of l place 0) → length g.words < length (words_of l place 0)
part_shorter l place g part most = grind (arith, common_steps)
