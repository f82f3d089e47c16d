-- Reading what was written: a sheet written from phrases with rising codes is sound, and has under each code what the phrases have, whatever
-- bytes follow it. By induction on the phrases, each read at the front of what is left.
use Prim.Native.Nat.{ℕ, ◌+◌, ◌-◌, ◌*◌, ◌/◌, ◌%◌}
use mathlib.Core.Bool.{Bool, true, false, cond}
use mathlib.Core.List.{List, [], ◌∷◌, ◌++◌, append_assoc}
use mathlib.Core.Path.{◌≡◌, refl, sym, ap, ◌∙◌}
use native.Mathlib.Nat.{div-add-mod'}
use native.Mathlib.Omega.{arith}
use borrow.Author.Tests.{le-ltb}
use lib.Dec.{T, eqb, leb, leb→le}
use lib.ListN.{length, take, drop, length-append}
use lib.Seq.{drop_at, drop-append-add, take-append_seam}
use Rattle.promise.proofs.Tests.{both_left, both_right}
use Rattle.phrases.specs.Sheets.{word_at, body_of, window, phrase, phrases_of, phrases_from, fault, judged, place_of, place_in, found, text_of, text_from}
use Rattle.phrases.specs.Writing.{word_bytes, phrase_bytes, phrases_bytes, sheet_bytes, rising, look_up}
use Rattle.phrases.proofs.Laws.{one-phrase}
use Rattle.phrases.proofs.Cases.{judged_phrases}
use Rattle.refusals.specs.declared.Reason.TheVariants.{None}
use Rattle.std.specs.Prelude.{Some}

-- a two-byte number is read back
word_back : (n : ℕ) → n / 256 * 256 + n % 256 ≡ n
word_back n = div-add-mod' n 256

-- One phrase in front of others.

module _ (at code : ℕ) (text rest : List ℕ) where
  abbrev Front : List ℕ
  Front = phrase_bytes (code, text)

  front_long : length Front ≡ 3 + length text
  front_long = omega arith

  front : phrases_of at (Front ++ rest) ≡ phrase (record { code = code; start = at + 3; count = length text }) (phrases_of (at + 3 + length text) rest)
  front =
      let l : length (Front ++ rest) ≡ 3 + length text + length rest = length-append Front rest ∙ ap (λ (n : ℕ). n + length rest) front_long in
      one-phrase at (Front ++ rest) (omega arith) (omega arith) (omega arith)
      ∙ rw (word_back code, drop_at Front rest (3 + length text) front_long)

-- The phrases, one after the other.

back : (pre : List ℕ) (ps : List (ℕ × List ℕ)) (more : List ℕ) (code : ℕ)
    → text_of (pre ++ (phrases_bytes ps ++ more)) (place_of code (phrases_of (length pre) (phrases_bytes ps))) ≡ look_up code ps
unfolding phrases_bytes phrases_from place_of text_of look_up
back pre [] more code = refl
back pre ((c, text) ∷ ps) more code =
    rw (front (length pre) c text (phrases_bytes ps)) (by (eqb c code) (back (pre ++ phrase_bytes (c, text)) ps more code))
  where
    rest : List ℕ
    rest = phrases_bytes ps

    s : List ℕ
    s = pre ++ ((phrase_bytes (c, text) ++ rest) ++ more)

    here : take (length text) (drop (length pre + 3) s) ≡ text
    here =
        ap (take (length text)) (drop-append-add pre ((phrase_bytes (c, text) ++ rest) ++ more) 3)
        ∙ ap (take (length text)) (append_assoc text rest more)
        ∙ take-append_seam text (rest ++ more)

    next : length (pre ++ phrase_bytes (c, text)) ≡ length pre + 3 + length text
    next = omega (arith, length-append pre (phrase_bytes (c, text)))

    whole : s ≡ (pre ++ phrase_bytes (c, text)) ++ (rest ++ more)
    whole = ap (λ (l : List ℕ). pre ++ l) (append_assoc (phrase_bytes (c, text)) rest more) ∙ sym (append_assoc pre (phrase_bytes (c, text)) (rest ++ more))

    by : (b : Bool)
        → text_of ((pre ++ phrase_bytes (c, text)) ++ (rest ++ more)) (place_of code (phrases_of (length (pre ++ phrase_bytes (c, text))) rest)) ≡ look_up code ps
        → text_of s (cond b (Some (record { start = length pre + 3; count = length text }))
        (place_of code (phrases_of (length pre + 3 + length text) rest)))
        ≡ cond b (found text) (look_up code ps)
    by true ih = ap found here
    by false ih = rw (whole, ← next) ih

faultless : (at least : ℕ) (ps : List (ℕ × List ℕ)) → T (rising least ps) → fault least (phrases_of at (phrases_bytes ps)) ≡ None
unfolding phrases_bytes phrases_from fault rising
faultless at least [] t = refl
faultless at least ((c, text) ∷ ps) t =
    rw (front at c text (phrases_bytes ps), le-ltb c least (leb→le least c (both_left (leb least c) (rising (c + 1) ps) t)))
    (faultless (at + 3 + length text) (c + 1) ps (both_right (leb least c) (rising (c + 1) ps) t))

-- The sheet.

module _ (ps : List (ℕ × List ℕ)) (more : List ℕ) where
  abbrev Sheet : List ℕ
  Sheet = sheet_bytes ps ++ more

  said : word_at Sheet 0 ≡ 1 + length (phrases_bytes ps)
  unfolding sheet_bytes
  said = word_back (1 + length (phrases_bytes ps))

  long : length Sheet ≡ 3 + length (phrases_bytes ps) + length more
  unfolding sheet_bytes
  long = omega (arith, length-append (sheet_bytes ps) more)

  body : body_of Sheet ≡ phrases_bytes ps
  unfolding sheet_bytes
  body =
      let e : 2 + (1 + length (phrases_bytes ps)) - 3 ≡ length (phrases_bytes ps) = omega arith in
      rw (said, e) (take-append_seam (phrases_bytes ps) more)

  -- it is sound
  pub sound-written : T (rising 0 ps) → judged Sheet ≡ None
  unfolding sheet_bytes
  sound-written t =
      judged_phrases Sheet (1 + length (phrases_bytes ps)) (sym said) (omega (arith, long)) (omega arith) (omega (arith, long)) refl
      ∙ ap (λ (b : List ℕ). fault 0 (phrases_of 3 b)) (ap (λ (n : ℕ). window 3 (2 + n) Sheet) (sym said) ∙ body)
      ∙ faultless 3 0 ps t

  -- and has under each code what the phrases have
  pub read_back : (code : ℕ) → text_from Sheet code ≡ look_up code ps
  unfolding sheet_bytes place_in
  read_back code =
      ap (λ (b : List ℕ). text_of Sheet (place_of code (phrases_of 3 b))) body
      ∙ back (word_bytes (1 + length (phrases_bytes ps)) ++ (1 ∷ [])) ps more code
