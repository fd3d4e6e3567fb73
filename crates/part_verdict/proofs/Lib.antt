mod Returns
mod ArrayCases
