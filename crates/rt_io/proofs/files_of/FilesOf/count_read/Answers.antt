use Rattle.std.proofs.Common.{arith, subst, sym, ◌≡◌, ◌≤◌, ◌↔◌, min, ◌+◌, None}
use Rattle.std.specs.Prelude.{Contains, IsTrue}
use Rattle.rt_base.specs.Outside.{Rose}
use Rattle.rt_io.specs.Memory.{FileList, content_of, faults_of}
use Rattle.rt_io.proofs.Counting.{faults_of-next, faults_of-listed, faults_of-absent}
use Rattle.rt_io.proofs.files_of.FilesOf.count_read.Goals as goal

pub returns-clause-fails : goal.returns-clause-fails
returns-clause-fails c =
    subst (λ (old : FileList). IsTrue c.is_listed.result ↔ Contains old.fails old.reads) c.self.view_is
    (subst (λ fails. IsTrue c.is_listed.result ↔ Contains fails c.self.inside.reads) c.deref.ensures.value c.is_listed.ensures.listed)

pub returns-clause-counted : goal.returns-clause-counted
returns-clause-counted c n =
    let fits : c.self.inside.reads ≤ 18446744073709551615 = omega arith in
    let files : FileList = record { contents = c.self.inside.contents.items; fails = c.self.inside.fails.items; reads = c.self.inside.reads } in
    rw c.saturating_add-self-inside.ensures
    (subst (λ old. faults_of old n ≤ faults_of (record files { reads = min (c.self.inside.reads + 1) 18446744073709551615 }) n) c.self.view_is (faults_of-next files n fits))

pub returns-clause-listed : goal.returns-clause-listed
returns-clause-listed c is n =
    let files : FileList = record { contents = c.self.inside.contents.items; fails = c.self.inside.fails.items; reads = c.self.inside.reads } in
    let listed : Contains c.self.inside.fails.items c.self.inside.reads = subst (λ fails. Contains fails c.self.inside.reads) c.deref.ensures.value (c.is_listed.ensures.listed.0 is) in
    rw c.saturating_add-self-inside.ensures
    (subst (λ old. Rose (faults_of old n) (faults_of (record files { reads = min (c.self.inside.reads + 1) 18446744073709551615 }) n)) c.self.view_is (faults_of-listed files n listed (c.is_listed.ensures.small is)))

pub returns-clause-absent : goal.returns-clause-absent
returns-clause-absent c n is =
    let fits : c.self.inside.reads ≤ 18446744073709551615 = omega arith in
    let files : FileList = record { contents = c.self.inside.contents.items; fails = c.self.inside.fails.items; reads = c.self.inside.reads } in
    rw c.saturating_add-self-inside.ensures
    (subst (λ old. Rose (faults_of old n) (faults_of (record files { reads = min (c.self.inside.reads + 1) 18446744073709551615 }) n)) c.self.view_is
    (faults_of-absent files n (subst (λ (old : FileList). content_of old.contents n ≡ None) (sym c.self.view_is) is) fits))
