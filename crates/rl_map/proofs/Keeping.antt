-- The words that are kept of places.
use Rattle.std.proofs.Common.{◌≡◌, ℕ, ◌+◌, ◌*◌, ◌^◌, ◌<◌, ◌≤◌, ◌⊎◌, inl, inr, List, [], ◌∷◌, ◌++◌, length, get_or, sym, ap, ◌∙◌, subst, arith}
use Rattle.std.specs.Prelude.{All, slice_get, Some}
use Rattle.std.proofs.lemmas.Bool.{cases_lt}
use Rattle.std.proofs.lemmas.List.{length-map, get_or_append_left}
use Rattle.std.proofs.Math.Seq.{get_or-append_seam}
use Rattle.std.proofs.Math.ListN.{get_or-map}
use Rattle.rl_map.specs.declared.path.Level.{Level}
use Rattle.rl_map.specs.declared.seat.Location.{Location}
use Rattle.rl_map.specs.declared.word.Word.{Word}
use Rattle.rl_map.specs.declared.kept.PlaceWords.{PlaceWords}
use Rattle.rl_map.specs.declared.rows.MapRow.{MapRow}
use Rattle.rl_map.specs.declared.rows.PortRow.{PortRow}
use Rattle.rl_map.specs.declared.rows.PlaceRow.{PlaceRow}
use Rattle.rl_map.specs.Level.{IsPath}
use Rattle.rl_map.specs.Seat.{AddressesFit}
use Rattle.rl_map.specs.Words.{item_words, no_word}
use Rattle.rl_map.specs.Layout.{LayoutData, no_map, no_port, no_place, place_at, port_at, path_of, base_of, location_of, words_of, IsLocation, IsSound}
use Rattle.rl_map.specs.Building.{path_in, port_for}
use Rattle.rl_map.specs.Locations.{further, all_further, kept_at, no_words, AreLocations, AreWordsOf, AreKept}
use Rattle.rl_map.proofs.WordsApart.{seated}
use Rattle.rl_map.proofs.Lookups.{default_any, read_is, got}
use Rattle.rl_map.proofs.Closing.{built}
use Rattle.rl_map.specs.Partition.{IsWordOn}
use Rattle.rl_bus.specs.declared.op.AdapterKind.{AdapterKind}
use Rattle.rl_bus.specs.declared.table.WordRow.{WordRow}
use Rattle.std.proofs.lemmas.Option.{slice_get_within}
use Rattle.rl_map.proofs.Lists.{one_longer}

-- words that stand at addresses of 64 bits once they are moved
pub low_words : (path : List Level) (base : ℕ) (item : Location) (words : List Word) (by : ℕ) → IsPath path → item.bytes ≤ 8 → AddressesFit path base item
    → item_words path base item ≡ all_further by words → All (λ w. w.address + by < 2 ^ 64) words
low_words path base item words by ok size fits e k d low =
    let here_in : k < length (item_words path base item) = omega (arith, ap length e, length-map words (further by)) in
    let here = seated path base item ok size k here_in in
    let at : get_or (item_words path base item) k no_word ≡ further by (get_or words k d) =
    default_any (item_words path base item) k no_word (further by d) here_in ∙ ap (λ ws. get_or ws k (further by d)) e ∙ get_or-map (further by) words k d in
    omega (arith, fits here.byte here.inside, here.address_is, ap (λ (w : Word). w.address) at)

-- what was read through references
pub path_read : (maps : List MapRow) (p : PlaceRow) (map : MapRow) (path : List Level) → p.map < length maps → map ≡ get_or maps p.map map → path ≡ map.path → path ≡ path_in maps p
path_read maps p map path low read is = is ∙ ap (λ (m : MapRow). m.path) (read_is maps p.map map no_map low read)

pub fits_read : (maps : List MapRow) (ports : List PortRow) (p : PlaceRow) (map : MapRow) (port : PortRow) (path : List Level) (loc : Location)
    → p.map < length maps → p.port < length ports → map ≡ get_or maps p.map map → port ≡ get_or ports p.port port → path ≡ map.path → loc ≡ location_of p 0
    → ((index : ℕ) → index < p.size → AddressesFit (path_in maps p) (port_for ports p).base (location_of p index))
    → (index : ℕ) → index < p.size → AddressesFit path port.base (record loc { index = index })
fits_read maps ports p map port path loc low_m low_p a b e f h index low =
    subst (λ x. AddressesFit x port.base (record loc { index = index })) (sym (path_read maps p map path low_m a e))
    (subst (λ (x : PortRow). AddressesFit (path_in maps p) x.base (record loc { index = index })) (sym (read_is ports p.port port no_port low_p b))
    (subst (λ (x : Location). AddressesFit (path_in maps p) (port_for ports p).base (record x { index = index })) (sym f) (h index low)))

pub kept_of : (maps : List MapRow) (ports : List PortRow) (p : PlaceRow) (map : MapRow) (port : PortRow) (path : List Level) (loc : Location) (kept : PlaceWords)
    → p.map < length maps → p.port < length ports → map ≡ get_or maps p.map map → port ≡ get_or ports p.port port → path ≡ map.path → loc ≡ location_of p 0
    → AreLocations path port.base loc p.size kept → AreLocations (path_in maps p) (port_for ports p).base (location_of p 0) p.size kept
kept_of maps ports p map port path loc kept low_m low_p a b e f h =
    let path_is : path ≡ path_in maps p = e ∙ ap (λ (m : MapRow). m.path) (read_is maps p.map map no_map low_m a) in
    let port_is : port ≡ port_for ports p = read_is ports p.port port no_port low_p b in
    subst (λ x. AreLocations x (port_for ports p).base (location_of p 0) p.size kept) path_is
    (subst (λ (x : PortRow). AreLocations path x.base (location_of p 0) p.size kept) port_is
    (subst (λ x. AreLocations path port.base x p.size kept) f h))

-- the words of one place more
pub words_more : (maps : List MapRow) (ports : List PortRow) (places places' : List PlaceRow) (kept kept' : List PlaceWords) (p : PlaceRow) (words : PlaceWords)
    → AreWordsOf maps ports places kept → AreLocations (path_in maps p) (port_for ports p).base (location_of p 0) p.size words
    → places' ≡ places ++ p ∷ [] → kept' ≡ kept ++ words ∷ [] → AreWordsOf maps ports places' kept'
words_more maps ports places places' kept kept' p words was now e f =
    subst (λ x. AreWordsOf maps ports x kept') (sym e) (subst (AreWordsOf maps ports (places ++ p ∷ [])) (sym f) (record {
      long = omega (arith, one_longer kept words, one_longer places p, was.long);
      each = λ n low. at n (cases_lt n (length places)) low;
    }))
  where
    Are : PlaceRow → PlaceWords → Type 0
    Are row w = AreLocations (path_in maps row) (port_for ports row).base (location_of row 0) row.size w

    at : (n : ℕ) → (n < length places) ⊎ (length places ≤ n) → n < length (places ++ p ∷ []) → Are (get_or (places ++ p ∷ []) n no_place) (get_or (kept ++ words ∷ []) n no_words)
    at n (inl h) low =
        subst (λ row. Are row (get_or (kept ++ words ∷ []) n no_words)) (sym (get_or_append_left places (p ∷ []) no_place n h))
        (subst (Are (get_or places n no_place)) (sym (get_or_append_left kept (words ∷ []) no_words n (omega (arith, was.long)))) (was.each n h))
    at n (inr h) low =
        let here : n ≡ length places = omega (arith, one_longer places p) in
        subst (λ k. Are (get_or (places ++ p ∷ []) k no_place) (get_or (kept ++ words ∷ []) k no_words)) (sym here)
        (subst (λ row. Are row (get_or (kept ++ words ∷ []) (length places) no_words)) (sym (get_or-append_seam places p [] no_place))
        (subst (Are p) (sym (ap (λ k. get_or (kept ++ words ∷ []) k no_words) (sym was.long) ∙ get_or-append_seam kept words [] no_words)) now))

-- ---- in a layout

pub kept_read : (l : LayoutData) (kepts : List PlaceWords) → AreKept l kepts → (place index : ℕ) → IsLocation l place index → (kept : PlaceWords) → kept ≡ get_or kepts place kept
    → words_of l place index ≡ kept_at kept index
kept_read l kepts are place index there kept e =
    are.words place index there ∙ ap (λ x. kept_at x index) (sym (read_is kepts place kept no_words (omega (arith, are.long, there.place_in)) e))

pub many_kept : (l : LayoutData) (kepts : List PlaceWords) → AreKept l kepts → (place index : ℕ) → IsLocation l place index → (kept : PlaceWords) → kept ≡ get_or kepts place kept
    → length kept.words ≡ length (words_of l place index)
many_kept l kepts are place index there kept e =
    sym (ap length (kept_read l kepts are place index there kept e) ∙ length-map kept.words (further (index * kept.step)))

-- a place has the words of its first location
pub kept_count : (l : LayoutData) (kepts : List PlaceWords) → IsSound l → AreKept l kepts → (place : ℕ) → place < length l.places → (kept : PlaceWords) → kept ≡ get_or kepts place kept
    → (0 < length kept.words) × (length kept.words ≤ 8)
kept_count l kepts sound are place low kept e =
    let there : IsLocation l place 0 = record { place_in = low; index_in = (sound.each_place place low).size } in
    let many = many_kept l kepts are place 0 there kept e in
    let has = sound.each_location place 0 there in
    (omega (arith, many, has.some), omega (arith, many, has.few))

pub kept_low : (l : LayoutData) (kepts : List PlaceWords) → IsSound l → AreKept l kepts → (place index : ℕ) → IsLocation l place index → (kept : PlaceWords) → kept ≡ get_or kepts place kept
    → All (λ w. w.address + index * kept.step < 2 ^ 64) kept.words
unfolding words_of
kept_low l kepts sound are place index there kept e =
    let fine = sound.each_place place there.place_in in
    low_words (path_of l place) (base_of l place) (location_of (place_at l place) index) kept.words (index * kept.step) (sound.each_map (place_at l place).map fine.map).path fine.most
    (sound.each_location place index there).fits (kept_read l kepts are place index there kept e)

-- the word of a number
pub low_at : (words : List Word) (by k : ℕ) → All (λ w. w.address + by < 2 ^ 64) words → k < length words → (get_or (all_further by words) k no_word).address < 2 ^ 64
low_at words by k low in_k =
    let at : get_or (all_further by words) k no_word ≡ further by (get_or words k no_word) =
    default_any (all_further by words) k no_word (further by no_word) (omega (arith, length-map words (further by))) ∙ get_or-map (further by) words k no_word in
    omega (arith, low k no_word in_k, ap (λ (w : Word). w.address) at)

pub record IsWordOf (l : LayoutData) (place index k : ℕ) (w : Word) : Type 0 where
  pub word : slice_get (words_of l place index) k ≡ Some w
  pub on : IsWordOn (port_at l (place_at l place).port).kind (port_at l (place_at l place).port).bytes w

pub word_kept : (l : LayoutData) (kepts : List PlaceWords) → IsSound l → AreKept l kepts → (place index k : ℕ) → IsLocation l place index → (kept : PlaceWords) → kept ≡ get_or kepts place kept
    → (w : Word) → slice_get (kept_at kept index) k ≡ Some w → IsWordOf l place index k w
word_kept l kepts sound are place index k there kept e w got_w =
    let word : slice_get (words_of l place index) k ≡ Some w = ap (λ ws. slice_get ws k) (kept_read l kepts are place index there kept e) ∙ got_w in
    record {
      word = word;
      on = subst (λ x. IsWordOn (port_at l (place_at l place).port).kind (port_at l (place_at l place).port).bytes x) (got (words_of l place index) k w no_word word)
          ((sound.each_location place index there).on k no_word (slice_get_within (words_of l place index) k w word));
    }

pub words_kept : (l : LayoutData) (kepts : List PlaceWords) → IsSound l → AreKept l kepts → (place index : ℕ) → IsLocation l place index → (kept : PlaceWords) → kept ≡ get_or kepts place kept
    → (ws : List Word) → ws ≡ kept_at kept index
    → (ws ≡ words_of l place index) × All (IsWordOn (port_at l (place_at l place).port).kind (port_at l (place_at l place).port).bytes) ws
words_kept l kepts sound are place index there kept e ws is =
    let same : ws ≡ words_of l place index = is ∙ sym (kept_read l kepts are place index there kept e) in
    (same, subst (λ x. All (IsWordOn (port_at l (place_at l place).port).kind (port_at l (place_at l place).port).bytes) x) (sym same) (sound.each_location place index there).on)

-- what was built
pub kept_built : (maps : List MapRow) (places : List PlaceRow) (ports : List PortRow) (kinds : List AdapterKind) (rows : List WordRow) (kepts : List PlaceWords)
    → AreWordsOf maps ports places kepts → AreKept (built maps places ports kinds rows) kepts
unfolding words_of
kept_built maps places ports kinds rows kepts are = record { long = are.long; words = λ place index there. are.each place there.place_in index there.index_in }
