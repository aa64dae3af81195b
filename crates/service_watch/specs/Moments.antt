-- Moments as texts.
use Rattle.std.specs.Prelude.{ℕ, ◌+◌, ◌/◌, ◌%◌, List, [], ◌∷◌, ◌==◌, ◌&&◌, cond, codes, slice_index}

-- the two digits of a month, by the second and the third letter of its English name
abbrev pub month_digits : ℕ → ℕ → List ℕ
month_digits a b =
    cond (a == 97 && b == 110) (codes "01") (cond (a == 101 && b == 98) (codes "02") (cond (a == 97 && b == 114) (codes "03")
    (cond (a == 112 && b == 114) (codes "04") (cond (a == 97 && b == 121) (codes "05") (cond (a == 117 && b == 110) (codes "06")
    (cond (a == 117 && b == 108) (codes "07") (cond (a == 117 && b == 103) (codes "08") (cond (a == 101 && b == 112) (codes "09")
    (cond (a == 99 && b == 116) (codes "10") (cond (a == 111 && b == 118) (codes "11") (codes "12")))))))))))

-- a moment as RFC 3339 writes it, `1994-11-06T08:49:37.123Z`, from HTTP's text of its second, `Sun,
-- 06 Nov 1994 08:49:37 GMT`, and the milliseconds of that second
abbrev pub rfc3339_text : List ℕ → ℕ → List ℕ
rfc3339_text date millis =
    slice_index date 12 ∷ slice_index date 13 ∷ slice_index date 14 ∷ slice_index date 15 ∷ 45
    ∷ slice_index (month_digits (slice_index date 9) (slice_index date 10)) 0 ∷ slice_index (month_digits (slice_index date 9) (slice_index date 10)) 1 ∷ 45
    ∷ slice_index date 5 ∷ slice_index date 6 ∷ 84
    ∷ slice_index date 17 ∷ slice_index date 18 ∷ slice_index date 19 ∷ slice_index date 20 ∷ slice_index date 21 ∷ slice_index date 22
    ∷ slice_index date 23 ∷ slice_index date 24 ∷ 46
    ∷ (48 + millis / 100) ∷ (48 + millis / 10 % 10) ∷ (48 + millis % 10) ∷ 90 ∷ []
