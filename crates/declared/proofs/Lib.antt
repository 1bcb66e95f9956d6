mod Result
