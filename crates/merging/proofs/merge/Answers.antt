-- `merging::merge` meets its contract. Assumes nothing.
use Rattle.std.proofs.Common.{◌≡◌, ◌∙◌, sym, Err, rules}
use Rattle.index_memory.specs.Memory.{ix_of}
use Rattle.merging.proofs.Cases.{merge_first, merge_second, merge_shared, merge_done, second_sized, copy_args}
use Rattle.merging.proofs.merge.Goals as goal

pub returns-in_err-check_own : goal.returns-in_err-check_own
returns-in_err-check_own c =
    let a = c.args in
    let e : c.from_residual.result ≡ Err c.in_err-check_own.field-0.0 = search rules in
    rw e (merge_first a.g _ (ix_of a.faces2.now a.marks2.now a.vectors2.now) _ c.in_err-check_own.ensures.told)

pub returns-then-not-own_lengths_ok : goal.returns-then-not-own_lengths_ok
returns-then-not-own_lengths_ok c =
    let a = c.args in
    let x = ix_of a.faces.now a.marks.now a.vectors.now in
    let y = ix_of a.faces2.now a.marks2.now a.vectors2.now in
    merge_second a.g x y c.in_ok-check_own.ensures.told (sym c.own_lengths_ok.ensures ∙ c.if-not-own_lengths_ok.true)

pub share_nothing-requires : goal.share_nothing-requires
share_nothing-requires c =
    let a = c.args in
    let x = ix_of a.faces.now a.marks.now a.vectors.now in
    let y = ix_of a.faces2.now a.marks2.now a.vectors2.now in
    c.in_ok-check_own.ensures.sized.marks ∙ sym (second_sized a.g x y c.in_ok-check_own.ensures.told (sym c.own_lengths_ok.ensures ∙ c.if-not-own_lengths_ok.false)).marks

pub returns-then-not-share_nothing : goal.returns-then-not-share_nothing
returns-then-not-share_nothing c =
    let a = c.args in
    let x = ix_of a.faces.now a.marks.now a.vectors.now in
    let y = ix_of a.faces2.now a.marks2.now a.vectors2.now in
    merge_shared a.g x y c.in_ok-check_own.ensures.told (sym c.own_lengths_ok.ensures ∙ c.if-not-own_lengths_ok.false) (sym c.share_nothing.ensures ∙ c.if-not-share_nothing.true)

pub copy_present-requires : goal.copy_present-requires
copy_present-requires c =
    let a = c.args in
    let x = ix_of a.faces.now a.marks.now a.vectors.now in
    let y = ix_of a.faces2.now a.marks2.now a.vectors2.now in
    copy_args a.g x y c.in_ok-check_own.ensures.told (sym c.own_lengths_ok.ensures ∙ c.if-not-own_lengths_ok.false) _ c.component_size.ensures

pub or-requires : goal.or-requires
or-requires c =
    let a = c.args in
    let x = ix_of a.faces.now a.marks.now a.vectors.now in
    let y = ix_of a.faces2.now a.marks2.now a.vectors2.now in
    c.in_ok-check_own.ensures.sized.faces ∙ sym (second_sized a.g x y c.in_ok-check_own.ensures.told (sym c.own_lengths_ok.ensures ∙ c.if-not-own_lengths_ok.false)).faces

pub or-requires-2 : goal.or-requires-2
or-requires-2 c =
    let a = c.args in
    let x = ix_of a.faces.now a.marks.now a.vectors.now in
    let y = ix_of a.faces2.now a.marks2.now a.vectors2.now in
    c.in_ok-check_own.ensures.sized.marks ∙ sym (second_sized a.g x y c.in_ok-check_own.ensures.told (sym c.own_lengths_ok.ensures ∙ c.if-not-own_lengths_ok.false)).marks

pub returns : goal.returns
returns c =
    let a = c.args in
    let x = ix_of a.faces.now a.marks.now a.vectors.now in
    let y = ix_of a.faces2.now a.marks2.now a.vectors2.now in
    merge_done a.g x y c.in_ok-check_own.ensures.told (sym c.own_lengths_ok.ensures ∙ c.if-not-own_lengths_ok.false) _ _ _ _ (sym c.share_nothing.ensures ∙ c.if-not-share_nothing.false) c.or.ensures c.or-2.ensures c.component_size.ensures c.copy_present.ensures
