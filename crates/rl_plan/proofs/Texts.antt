-- The lines of operations in pieces.
use Rattle.std.proofs.Common.{◌≡◌, ℕ, List, [], ◌∷◌, ◌++◌, flat_map, map, codes, Option, None, Result, Ok, Err, OnOk, refl, sym, ap, ◌∙◌, append_assoc, append-nil}
use Rattle.rl_access.specs.declared.event.Op.TheVariants as op
use Rattle.rl_access.specs.Model.{ModelData}
use Rattle.rl_model.specs.declared.rows.Item.TheVariants as item
use Rattle.rl_model.specs.Chip.{path_of_item}
use Rattle.rl_policy.specs.Numbers.{spelled}
use Rattle.rl_report.specs.Operation.{kind_text, map_name, number_text}
use Rattle.rl_script.specs.Spelling.{joined, map_words, spaced, spelling, words_with}
use Rattle.rl_script.specs.Commands.{item_name}
use Rattle.rl_script.specs.declared.command.Item.TheVariants as verb
use Rattle.rl_plan.specs.Text.{item_text, op_line}

reset_is : (m : ModelData) (kind : ℕ) → op_line m (op.Reset kind) ≡ codes "reset " ++ kind_text m.chip kind ++ codes "\n"
unfolding spelling
reset_is m kind = ap (λ t. codes "reset " ++ t ++ codes "\n") (append-nil (kind_text m.chip kind))

pub reset_pushed : {T E : Type 0} (r : Result T E) (m : ModelData) (kind : ℕ) (old new name : List ℕ) → name ≡ kind_text m.chip kind
    → OnOk r (new ≡ old ++ (codes "reset " ++ name ++ codes "\n")) → OnOk r (new ≡ old ++ op_line m (op.Reset kind))
reset_pushed (Ok x) m kind old new name is h =
    h ∙ ap (λ n. old ++ (codes "reset " ++ n ++ codes "\n")) is ∙ ap (λ t. old ++ t) (sym (reset_is m kind))
reset_pushed (Err e) m kind old new name is h = tt

numbers_are : (numbers : List ℕ) (words : List (List ℕ)) → spaced (map spelled numbers ++ words) ≡ flat_map number_text numbers ++ spaced words
numbers_are [] words = refl
numbers_are (n ∷ numbers) words =
    ap (λ t. 32 ∷ spelled n ++ t) (numbers_are numbers words)
    ∙ ap (λ t. 32 ∷ t) (sym (append_assoc (spelled n) (flat_map number_text numbers) (spaced words)))
    ∙ ap (λ t. (32 ∷ t ++ flat_map number_text numbers) ++ spaced words) (sym (append-nil (spelled n)))

item_is : (command path : List ℕ) (numbers : List ℕ) (through : Option (List ℕ))
    → joined (words_with command path numbers through) ++ codes "\n"
    ≡ command ++ codes " " ++ path ++ flat_map number_text numbers ++ spaced (map_words through) ++ codes "\n"
item_is command path numbers through =
    let behind = flat_map number_text numbers in
    let last = spaced (map_words through) in
    let end = codes "\n" in
    let one : joined (words_with command path numbers through) ++ end ≡ (command ++ (32 ∷ (path ++ (behind ++ last)))) ++ end =
    ap (λ t. (command ++ (32 ∷ (path ++ t))) ++ end) (numbers_are numbers (map_words through)) in
    let two : (command ++ (32 ∷ (path ++ (behind ++ last)))) ++ end ≡ command ++ (32 ∷ ((path ++ (behind ++ last)) ++ end)) =
    append_assoc command (32 ∷ (path ++ (behind ++ last))) end in
    let three : (path ++ (behind ++ last)) ++ end ≡ path ++ (behind ++ (last ++ end)) =
    append_assoc path (behind ++ last) end ∙ ap (λ t. path ++ t) (append_assoc behind last end) in
    let front = (command ++ codes " ") ++ path in
    let four : ((front ++ behind) ++ last) ++ end ≡ command ++ (32 ∷ (path ++ (behind ++ (last ++ end)))) =
    append_assoc (front ++ behind) last end ∙ append_assoc front behind (last ++ end)
    ∙ append_assoc (command ++ codes " ") path (behind ++ (last ++ end)) ∙ append_assoc command (codes " ") (path ++ (behind ++ (last ++ end))) in
    one ∙ two ∙ ap (λ t. command ++ (32 ∷ t)) three ∙ sym four

pub check_is : (m : ModelData) (reg : ℕ) (through : Option ℕ)
    → op_line m (op.Check reg through) ≡ item_text m (item_name verb.Check) (item.Reg reg) [] through
unfolding spelling
check_is m reg through =
    item_is (item_name verb.Check) (path_of_item m.chip (item.Reg reg)) [] (map_name m.layout through)

pub back_check_is : (m : ModelData) (reg : ℕ) → op_line m (op.BackCheck reg) ≡ item_text m (item_name verb.BackCheck) (item.Reg reg) [] None
unfolding spelling
back_check_is m reg =
    item_is (item_name verb.BackCheck) (path_of_item m.chip (item.Reg reg)) [] None

pub write_is : (m : ModelData) (reg value : ℕ) (through : Option ℕ)
    → op_line m (op.Write reg through value) ≡ item_text m (item_name verb.Write) (item.Reg reg) (value ∷ []) through
unfolding spelling
write_is m reg value through =
    item_is (item_name verb.Write) (path_of_item m.chip (item.Reg reg)) (value ∷ []) (map_name m.layout through)

pub poke_is : (m : ModelData) (reg value : ℕ) → op_line m (op.Poke reg value) ≡ item_text m (item_name verb.Poke) (item.Reg reg) (value ∷ []) None
unfolding spelling
poke_is m reg value =
    item_is (item_name verb.Poke) (path_of_item m.chip (item.Reg reg)) (value ∷ []) None

pub mem_write_is : (m : ModelData) (mem index value : ℕ) (through : Option ℕ)
    → op_line m (op.MemWrite mem through index value) ≡ item_text m (item_name verb.MemWrite) (item.Mem mem) (index ∷ value ∷ []) through
unfolding spelling
mem_write_is m mem index value through =
    item_is (item_name verb.MemWrite) (path_of_item m.chip (item.Mem mem)) (index ∷ value ∷ []) (map_name m.layout through)

pub mem_check_is : (m : ModelData) (mem index value : ℕ) (through : Option ℕ)
    → op_line m (op.MemCheck mem through index value) ≡ item_text m (item_name verb.MemCheck) (item.Mem mem) (index ∷ value ∷ []) through
unfolding spelling
mem_check_is m mem index value through =
    item_is (item_name verb.MemCheck) (path_of_item m.chip (item.Mem mem)) (index ∷ value ∷ []) (map_name m.layout through)

pub mem_read_is : (m : ModelData) (mem index : ℕ) (through : Option ℕ)
    → op_line m (op.MemRead mem through index) ≡ item_text m (item_name verb.MemRead) (item.Mem mem) (index ∷ []) through
unfolding spelling
mem_read_is m mem index through =
    item_is (item_name verb.MemRead) (path_of_item m.chip (item.Mem mem)) (index ∷ []) (map_name m.layout through)
