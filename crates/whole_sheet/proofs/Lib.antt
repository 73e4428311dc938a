-- What a run of a sheet comes to, case by case.
pub mod Laws
