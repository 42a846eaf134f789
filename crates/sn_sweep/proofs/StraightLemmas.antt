-- The motion of a line that the machine accepts is not slanted.
use Rattle.std.proofs.Common.{◌≡◌, Bool, true, false, not, ◌&&◌, ◌||◌, Option, None, List, refl, sym, ap, ◌∙◌, inl, inr, ℤ, zero, suc, ◌∷◌, [], arith}
use Rattle.std.specs.Prelude.{unwrap_or, find, Contains}
use Rattle.std.proofs.lemmas.Bool.Decides.{Decides-int_eq}
use Rattle.sn_geom.specs.declared.machine.Word.{Word}
use Rattle.sn_geom.specs.declared.machine.MachFault.{MachFault}
use Rattle.sn_geom.specs.declared.machine.MachFault.TheVariants.{Slanted}
use Rattle.sn_geom.specs.declared.tip.Tip.{Tip}
use Rattle.sn_geom.specs.declared.tip.Tip.TheVariants.{Unknown, Height, At}
use Rattle.sn_geom.specs.declared.units.Pt3.{Pt3}
use Rattle.sn_geom.specs.Block.{Block, x_of, y_of, z_of, has_axis, has_z_alone}
use Rattle.sn_geom.specs.Machine.{State, prepared, fault_of, acts_of, keeps, is_feed, is_slanted, target, motion_of}
use Rattle.sn_geom.specs.MachineLaws.{FirstFaultIsTold, has_fault, faults}
use Rattle.sn_geom.specs.Sweep.{IsHorizontalOrVertical}
use Rattle.sn_sweep.specs.Judging.{IsStraight, AreStraight}

by_test : (b : Bool) (R : Type 0) → (b ≡ true → R) → (b ≡ false → R) → R
by_test true R met other = met refl
by_test false R met other = other refl

kept : (old : ℤ) (word : Option ℤ) → keeps old word ≡ true → old ≡ unwrap_or word old
kept old word same = sym ((Decides-int_eq (unwrap_or word old) old).0 same)

straight_between : (p : Pt3) (words : List Word) → is_slanted (At p) words ≡ false → IsHorizontalOrVertical p (target p words)
straight_between p words not_slanted =
    by_test (keeps p.z (z_of words)) (IsHorizontalOrVertical p (target p words))
    (λ z. inl (kept p.z (z_of words) z))
    (λ z. by_test (keeps p.x (x_of words)) (IsHorizontalOrVertical p (target p words))
    (λ x. by_test (keeps p.y (y_of words)) (IsHorizontalOrVertical p (target p words))
    (λ y. inr (kept p.x (x_of words) x, kept p.y (y_of words) y))
    (λ y. let h = rw (z, x, y) at not_slanted in cc))
    (λ x. let h = rw (z, x) at not_slanted in cc))

straight_motion : (s : State) (tip : Tip) (words : List Word) → is_slanted tip words ≡ false → IsStraight (motion_of s tip words)
straight_motion s Unknown words not_slanted = tt
straight_motion s (Height z) words not_slanted =
    by_test (has_z_alone words) (IsStraight (motion_of s (Height z) words)) (λ alone. rw alone tt) (λ other. rw other tt)
straight_motion s (At p) words not_slanted =
    let straight = straight_between p words not_slanted in
    by_test (is_feed s.motion) (IsStraight (motion_of s (At p) words)) (λ feed. rw feed straight) (λ rapid. rw rapid straight)

none_found : (p : MachFault → Bool) (xs : List MachFault) (x : MachFault) → find p xs ≡ None → Contains xs x → p x ≡ false
none_found p [] x none (k, below, is) = absurd (omega arith)
none_found p (y ∷ ys) x none (zero, below, is) =
    by_test (p y) (p x ≡ false) (λ met. let h = rw met at none in cc) (λ other. ap p (sym is) ∙ other)
none_found p (y ∷ ys) x none (suc k, below, is) =
    by_test (p y) (p x ≡ false) (λ met. let h = rw met at none in cc) (λ other. none_found p ys x (rw other at none) (k, omega arith, is))

-- no fault of a line that is accepted is in the order of faults
not_slanted_at : FirstFaultIsTold → (s : State) (b : Block) → fault_of s b ≡ None → has_fault s b Slanted ≡ false
not_slanted_at told s b clean = none_found (λ fault. has_fault s b fault) faults Slanted (sym (told s b) ∙ clean) (8, omega arith, refl)

counted : (closed percent : Bool) → (closed || percent) ≡ false → (not closed && not percent) ≡ true
counted true percent e = absurd (cc)
counted false true e = absurd (cc)
counted false false e = refl

pub accepted_is_straight : FirstFaultIsTold → (s : State) (b : Block) → fault_of s b ≡ None → AreStraight (acts_of s b).motion
accepted_is_straight told s b clean =
    let slanted = not_slanted_at told s b clean in
    by_test (s.closed || b.percent) (AreStraight (acts_of s b).motion)
    (λ idle. rw idle tt)
    (λ read. by_test (has_axis b.words) (AreStraight (acts_of s b).motion)
    (λ axes. let own : is_slanted (prepared s b.words).tip b.words ≡ false = rw (counted s.closed b.percent read, axes) at slanted in
    rw (read, axes) (straight_motion (prepared s b.words) (prepared s b.words).tip b.words own))
    (λ none. rw (read, none) tt))
