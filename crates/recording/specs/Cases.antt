-- The sample of docs/RECORDING.md: a clock at 360 that was done and counted nothing, and the drop of a client 9, refused by 20.
use Rattle.std.specs.Prelude.{ℕ, ◌≡◌, List, [], ◌∷◌}
use Rattle.fields.specs.Fields.{zeros}
use Rattle.bindings.specs.Bindings.{joined}
use Rattle.rules.specs.Calls.{editing, clock, drop_client}
use Rattle.recording.specs.Recording.{Recorded, recording_bytes, records_of, recording_answer}

unfoldable pub sample : List Recorded
sample =
    record { call = editing (clock 360); answer = record { number = 0; values = 0 ∷ 0 ∷ 0 ∷ 0 ∷ []; shown = [] } }
    ∷ record { call = editing (drop_client 9); answer = record { number = 20; values = []; shown = [] } }
    ∷ []

-- eight bytes of a number below 256
abbrev eight : ℕ → List ℕ
eight n = n ∷ zeros 7

unfoldable pub sample_bytes : List ℕ
sample_bytes =
    joined
    (eight 2
    -- call: 9 bytes, code 12, 360; no lists; answer: 40 bytes, five numbers 0; nothing shown
    ∷ eight 9
    ∷ (0x0c ∷ 0x68 ∷ 0x01 ∷ zeros 6)
    ∷ eight 0
    ∷ eight 0
    ∷ eight 40
    ∷ zeros 40
    ∷ eight 0
    -- call: 5 bytes, code 7, 9; no lists; answer: 8 bytes, 20; nothing shown
    ∷ eight 5
    ∷ (0x07 ∷ 0x09 ∷ 0x00 ∷ 0x00 ∷ 0x00 ∷ [])
    ∷ eight 0
    ∷ eight 0
    ∷ eight 8
    ∷ eight 0x14
    ∷ eight 0
    ∷ [])

pub record SampleTold : Type 0 where
  pub written : recording_bytes sample ≡ sample_bytes
  pub read : records_of sample_bytes ≡ sample
  pub accepted : recording_answer sample_bytes ≡ 0
