-- Wire codes (document 01, "Answers turn into wire codes by one decision").
use Rattle.std.specs.Prelude.{ℕ, cond, ◌||◌, eqb}

-- 0 and 12 to 0; 4 to 1910; 5 to 1911; 11 to 1912; 6 to CO_E_OBJNOTREG; 16 to RPC_E_VERSION_MISMATCH; every other number to E_FAIL
unfoldable pub wire_code : ℕ → ℕ
wire_code n =
    cond (eqb n 0 || eqb n 12) 0
    (cond (eqb n 4) 1910
    (cond (eqb n 5) 1911
    (cond (eqb n 11) 1912
    (cond (eqb n 6) 0x800401FB
    (cond (eqb n 16) 0x80010110
    0x80004005)))))
