-- A device and a model agree when both are new.
use Rattle.std.proofs.Common.{◌≡◌, ℕ, ◌+◌, ◌<◌, false, length, replicate, refl, sym, ap, ◌∙◌, subst}
use Rattle.std.specs.Prelude.{slice_index}
use Rattle.std.proofs.lemmas.List.{get_or-replicate, length-replicate, length-map}
use Rattle.rl_policy.specs.Bits.{bit}
use Rattle.rl_policy.proofs.BitLemmas.{bit-zero}
use Rattle.rl_bus.specs.State.{first_state, empty_state}
use Rattle.rl_model.specs.declared.rows.RegRow.{RegRow}
use Rattle.rl_model.specs.Rows.{ChipData}
use Rattle.rl_model.specs.Chip.{IsSound}
use Rattle.rl_model.specs.Fields.{first_of, fields_of}
use Rattle.rl_map.specs.Layout.{LayoutData}
use Rattle.rl_map.specs.Tables.{setup_of}
use Rattle.rl_split.specs.Law.{no_flaws}
use Rattle.rl_mirror.specs.Prediction.{blank, fresh}
use Rattle.rl_mirror.proofs.FieldLemmas.{number_within}
use Rattle.rl_mirror.proofs.MirrorLemmas.{blank_built}
use Rattle.rl_mirror.proofs.PlaceLemmas.{place_is}
use Rattle.rl_plain.specs.Agree.{HasNoVolatile, IsAsBelieved, NewOnesAgree}
use Rattle.rl_plain.proofs.Resets.{after}

registers_of : (c : ChipData) (l : LayoutData) → length (setup_of c l no_flaws).regs ≡ length c.regs
unfolding setup_of
registers_of c l = length-map c.regs (λ (r : RegRow). r.bytes)

empty_register : (n reg : ℕ) → reg < n → slice_index (replicate n 0) reg ≡ 0
empty_register n reg inside = get_or-replicate n reg 0 0 inside

nothing_believed : (c : ChipData) (l : LayoutData) (count : ℕ) → IsSound c → HasNoVolatile c → IsAsBelieved c l (blank c) (empty_state (setup_of c l no_flaws) count)
nothing_believed c l count sound steady =
    let t = setup_of c l no_flaws in
    let n = length t.regs in
    let many : n ≡ length c.regs = registers_of c l in
    record {
      ready = record { setup = refl; beats = λ p a. refl; bits = length-replicate n 0 ∙ many; marks = length-replicate n 0 ∙ many };
      steady = steady;
      holds = λ reg inside.
          let here : reg < n = subst (λ k. reg < k) (sym many) inside in
          record {
            bits = empty_register n reg here ∙ sym (get_or-replicate (length c.regs) reg 0 0 inside);
            marks = λ b k low at.
                ap (λ x. bit x b) (empty_register n reg here)
                ∙ bit-zero b
                ∙ sym (get_or-replicate (length c.fields) (first_of c reg + k) false false (number_within c reg k sound inside (place_is (fields_of c reg) b k at).0));
          };
      alone = λ reg inside b low e. ap (λ x. bit x b) (empty_register n reg (subst (λ k. reg < k) (sym many) inside)) ∙ bit-zero b;
    }

believed_first : (c : ChipData) (l : LayoutData) (count : ℕ) → IsSound c → HasNoVolatile c → IsAsBelieved c l (fresh c) (first_state (setup_of c l no_flaws) count)
unfolding first_state fresh
believed_first c l count sound steady = after c l (empty_state (setup_of c l no_flaws) count) (blank c) 0 sound (blank_built c) (nothing_believed c l count sound steady)

pub new_ones_agree : NewOnesAgree
new_ones_agree s count sound steady mirror gathered told = record {
  device = first_state (setup_of s.model.chip s.model.layout no_flaws) count;
  told = told;
  believed_is = subst (λ m. IsAsBelieved s.model.chip s.model.layout m (first_state (setup_of s.model.chip s.model.layout no_flaws) count)) (sym mirror) (believed_first s.model.chip s.model.layout
      count sound steady);
  gathered = gathered;
}
